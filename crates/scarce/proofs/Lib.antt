mod Handle
mod Requested
