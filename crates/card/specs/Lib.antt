pub mod CardParts
pub mod Given
pub mod Laws
pub mod Numbers
