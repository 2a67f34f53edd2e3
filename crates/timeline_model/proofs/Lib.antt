mod Ranges
mod Queues
mod Fronts
