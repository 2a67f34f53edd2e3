mod Doing
mod Words
