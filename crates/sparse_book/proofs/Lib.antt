mod Firsts
mod Slots
mod Counting
mod Freeing
mod Taking
mod Settling
mod Blank
