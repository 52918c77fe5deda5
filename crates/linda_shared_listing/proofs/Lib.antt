pub mod FirstLaws
pub mod ListingLaws
pub mod ShapeLaws
pub mod ClientLaws
pub mod TakenLaws
pub mod KindLaws
pub mod GatheredLaws
