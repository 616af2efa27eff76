use Rattle.rules.proofs.paragraph.lists_of.Goals as goal

pub returns-clause-found : goal.returns-clause-found
returns-clause-found c = λ i. record {
  architectures = c.in_ok-names_of.ensures.found i;
  components = c.in_ok-names_of-2.ensures.found i;
  also_accept_for = c.in_ok-names_of-3.ensures.found i;
  uploaders = c.in_ok-uploaders_of.ensures i;
}
