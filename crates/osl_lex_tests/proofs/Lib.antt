mod Numbers
mod Pieces
mod Places
