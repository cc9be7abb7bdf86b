pub mod Mnemonics
pub mod Targets
pub mod Operands
pub mod Numbers
pub mod Printed
pub mod Returning
