-- The paper in definitions: read from Answer to Promise, in this order; Bench holds the worked examples.
pub mod Answer
pub mod Word
pub mod Expr
pub mod Table
pub mod Run
pub mod Sum
pub mod Path
pub mod Correspondence
pub mod Judgement
pub mod Promise
pub mod Bench
