pub mod TiesToEven
