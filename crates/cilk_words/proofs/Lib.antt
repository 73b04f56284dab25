mod Requests
mod Refusals
mod Simple
mod Rows
mod Built
mod Folders
