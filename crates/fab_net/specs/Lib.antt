-- The definitions of fab_net, by file.
pub mod Names
pub mod Netlist
pub mod Text
pub mod Faults
pub mod Examples
pub mod Rows
pub mod ByNumber
pub mod BlockNets
pub mod Said
pub mod Shown
pub mod FaultTexts
