-- Laws that the proofs cite. For the crates above: ValueByValue, the loops over a signal's elements; Numbers, its elements by their numbers;
-- Ports, the ports that send in a symbol; SignalOwners, where and what each signal sends, by its owner's rule; Stretches and Values, what
-- these stand on.
pub mod Stretches
pub mod Values
pub mod ValueByValue
pub mod Numbers
pub mod Ports
pub mod SignalOwners
