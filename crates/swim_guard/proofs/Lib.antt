mod Each
mod Given
mod Heard
mod Sending
mod Steps
