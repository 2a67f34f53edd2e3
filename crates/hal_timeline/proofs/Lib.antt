mod Lives
mod Drawn
