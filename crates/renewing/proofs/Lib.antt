pub mod RenewedShelves
pub mod RenewedTexts
pub mod RenewedSteps
pub mod PrintedLemmas
pub mod StanzaLemmas
pub mod Renewed
