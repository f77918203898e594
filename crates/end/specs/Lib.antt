pub mod Opening
pub mod Ready
pub mod Ring
pub mod Rules
