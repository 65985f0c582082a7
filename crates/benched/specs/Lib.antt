-- What the measured functions' contracts cite.
pub mod Stand
