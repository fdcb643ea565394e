-- What each call does.

-- "The lowest number that applies is given."
pub mod First
-- A setup, and then the calls.
pub mod Setup
pub mod Admit
pub mod Message
pub mod Part
pub mod Alive
pub mod Clock
pub mod Question
-- Messages to a group.
pub mod Multicast
-- What no call looks at.
pub mod Alike

-- Proved of them.
-- Each number exactly when its row applies first; a refusal changes nothing.
-- What a piece changes, and nothing of another sender.
-- A valid state stays valid.
-- Never looked at, and written 0.
