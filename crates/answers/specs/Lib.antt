-- This paper's number and values for each case of each answer (Told), and that they tell the answer (ToldLaws).
pub mod Told
