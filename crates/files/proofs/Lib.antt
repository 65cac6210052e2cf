mod Layouts
mod Rules
mod Walks
