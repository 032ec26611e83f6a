pub mod Cataloguing
