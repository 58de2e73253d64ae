mod Turning
mod Ends
