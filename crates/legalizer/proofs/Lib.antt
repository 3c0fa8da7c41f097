mod Narrow
mod Answering
