mod Played
mod OwnFaults
