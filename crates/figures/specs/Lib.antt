-- 01's figures as rows of one table, samples of the classic oscillator as rows of another, and crossings that meet a reset as rows of a third.
pub mod Classic
pub mod Late
pub mod Question
pub mod Rows
pub mod ClassicRows
pub mod LateRows
