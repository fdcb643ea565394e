pub mod CutterLaws
pub mod PiecesLaws
pub mod PossibleLaws
pub mod PrintedLaws
pub mod ReadLaws
