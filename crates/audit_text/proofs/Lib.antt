pub mod EachSpelled
