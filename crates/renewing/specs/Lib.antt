pub mod Renewal
pub mod Printed
pub mod Stanzas
