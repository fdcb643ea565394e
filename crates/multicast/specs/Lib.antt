-- The tables as they are lent (Lent), and what the code knows of them (LentLaws).
pub mod Lent
