-- The four polynomials of the source's utils/polyblep.rs.
pub mod Polyblep
