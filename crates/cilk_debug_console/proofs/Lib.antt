mod Ordinals
mod Known
mod Cut
