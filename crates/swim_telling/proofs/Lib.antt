pub mod Noticed
