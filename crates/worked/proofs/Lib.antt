-- The worked books and their listings, proved: what the tables of specs/ say is so.
pub mod Table
pub mod Listings
