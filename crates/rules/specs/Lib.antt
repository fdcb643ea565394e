-- What each call does (calls), and what a past is (pasts). In each folder X.antt is what a reader must believe, and
-- proofs/ has in XLaws.antt what is proved of it.
pub mod calls
pub mod pasts
