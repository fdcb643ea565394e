pub mod BitsLaws
pub mod ErrorsLaws
pub mod PlacesLaws
pub mod ReadingLaws
pub mod RoundLaws
pub mod SectionLaws
pub mod WritingLaws
