-- What an engine means, in the words of the rules.
pub mod Table
pub mod Model
pub mod Messages
