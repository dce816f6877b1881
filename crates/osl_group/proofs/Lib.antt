mod Named
mod Parameters
mod Putting
mod Shares
