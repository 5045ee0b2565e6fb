pub mod Edges
pub mod BrowsingEdges
pub mod AsciiEdges
pub mod ScriptEdges
pub mod StreamEdges
pub mod PageEdges
