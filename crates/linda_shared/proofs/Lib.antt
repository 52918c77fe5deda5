mod WorkingLaws
mod SeatLaws
mod BatchLaws
mod GroupLaws
mod DueLaws
mod GreetingLaws
mod AddressedLaws
