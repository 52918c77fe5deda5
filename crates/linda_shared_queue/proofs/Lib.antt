mod SeatLaws
mod HeardLaws
mod OwnerLaws
mod HearingLaws
