pub mod AnswerText
pub mod AnswerSoFar
pub mod Working
