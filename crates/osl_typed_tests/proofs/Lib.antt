mod LongestWords
mod Weights
mod Heights
mod Costs
