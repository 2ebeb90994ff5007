-- What the engine holds, and what its answers stand for.
pub mod Held
pub mod Sound
pub mod Answers
