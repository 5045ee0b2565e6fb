-- The edges of docs/RULES.md, section 17, in the order of the rules that they pin.
pub mod Edges
pub mod BrowsingEdges
pub mod AsciiEdges
pub mod ScriptEdges
pub mod StreamEdges
pub mod PageEdges
