pub mod Own
pub mod EventWords
pub mod EventLaws
pub mod Laws
pub mod FrameLaws
pub mod DeliveryLaws
pub mod DeliveryEquations
