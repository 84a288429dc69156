mod Texts
mod Concluding
mod Founds
