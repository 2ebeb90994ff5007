-- The judgement as the code answers it.
pub mod Judging
pub mod Images
