mod Ended
mod Served
mod Pictured
