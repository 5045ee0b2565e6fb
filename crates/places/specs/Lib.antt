-- Where written forms are put, in reading order: what a place is, the places of HTML and of strings, and samples of each place.
pub mod Places
pub mod HtmlPlaces
pub mod StringPlaces
pub mod Samples
pub mod Html5lib
