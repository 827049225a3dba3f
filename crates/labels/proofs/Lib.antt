pub mod Laying
pub mod Trips
pub mod Smalls
pub mod Texts
