-- Laws of the payload that a grid is built from. For the crates above: Symbols (the symbol of a place), Channels and Units (each owner's
-- bits), Payload (the payload of any grid), Recovered (a built grid gives its payload back), Grids (which grids are some payload's).
pub mod Symbols
pub mod Channels
pub mod Units
pub mod Sections
pub mod Payload
pub mod Digits
pub mod Recovered
pub mod Grids
