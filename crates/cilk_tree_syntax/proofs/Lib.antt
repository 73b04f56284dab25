pub mod Lists
pub mod Crosses
pub mod SwitchLines
