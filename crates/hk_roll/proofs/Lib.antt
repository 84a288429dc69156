mod Lookups
mod Rule
mod Holder
mod Founding
mod MostTold
mod Runs
