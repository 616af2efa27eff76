mod PlainLemmas
mod RowLemmas
mod ShownLemmas
mod TextLemmas
mod WholeLemmas
