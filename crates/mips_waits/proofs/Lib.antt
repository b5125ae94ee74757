mod Facts
mod Going
mod Follows
mod Assembly
mod Deciding
