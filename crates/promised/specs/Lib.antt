-- What is promised of every past. X.antt is what a reader must believe; XLaws.antt, in proofs/, is what is proved of it.

-- What a receiver says, by the past alone.
pub mod Judged
pub mod Log
pub mod Says
-- The tables of the groups, handed on through a past.
pub mod HandedOn
-- Nothing is delivered but a join of accepted pieces.
pub mod Join
-- A message is delivered at its last missing piece; each condition is needed.
pub mod Delivery
pub mod Needed
-- What a newcomer is told, by its number and the open one.
pub mod Newcomer
-- How old a repeat was.
pub mod Age
-- Who is alive.
pub mod AlivePast
-- For the proofs alone: what one sender sees of a past.
pub mod View

-- Proved of them.
