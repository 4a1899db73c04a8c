mod Rows
mod Hosting
mod Serving
