-- The listings, computed: a law for each, so that the log says which is refused, in a file with those of its kind.
pub mod ClocksLaws
pub mod Computing
pub mod DropsLaws
pub mod GroupsLaws
pub mod JoinsLaws
pub mod NumbersLaws
pub mod PacketsLaws
pub mod SetupsLaws
pub mod SignalsLaws
pub mod SixtyFourLaws
