-- The rooms, the steps, and the first step outside its room; and a test after which there is none.
pub mod Rooms
pub mod Steps
pub mod Safe
